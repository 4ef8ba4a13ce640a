mod Names
mod Numbered
mod Slots
