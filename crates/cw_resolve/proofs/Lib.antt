-- What expressions do, the forms of statements, names by their indices.
pub mod Acting
pub mod Shapes
pub mod Bounds
pub mod Indices
mod Alike
mod LabelShapes
mod LabelJoins
pub mod Lesser
mod Numbered
pub mod PlainNames
pub mod Scening
