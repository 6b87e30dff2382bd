mod StoredRuns
