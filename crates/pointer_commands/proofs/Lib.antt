mod CommandJobs
