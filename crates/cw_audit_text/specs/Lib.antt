pub mod TextLines
pub mod Kinds
pub mod AuditText
pub mod Faults
pub mod Reading
