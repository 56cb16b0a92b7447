mod Forms
pub mod Among
