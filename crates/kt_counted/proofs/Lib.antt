mod HistorySteps
