mod LineStarts
mod Remarks
mod Saying
