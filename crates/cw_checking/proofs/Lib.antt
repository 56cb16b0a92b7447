mod Checks
mod Judging
