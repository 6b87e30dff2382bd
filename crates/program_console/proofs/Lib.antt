mod Errors
mod ReportNames
