mod AfterRun
mod AfterCount
