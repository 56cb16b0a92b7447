pub mod Lists
pub mod DeclarationReading
pub mod DeclarationView
pub mod StatementReading
pub mod StatementView
pub mod Faults
