mod Audited
mod Reaudited
