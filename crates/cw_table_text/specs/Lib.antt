pub mod Rows
pub mod TablesText
pub mod Grammar
pub mod Working
