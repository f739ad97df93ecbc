-- `Gaps` is the flag of an opening, `Calls` what a host calls, `History` the theorem over every list of such calls, `Answered` that there is one of each.
mod Gaps
mod Calls
mod History
mod Answered
