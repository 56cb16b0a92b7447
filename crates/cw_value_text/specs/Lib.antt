pub mod ValuesText
pub mod Working
