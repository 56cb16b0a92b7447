mod Tasks
mod Fronts
mod Following
mod Reached
mod Advancing
mod Lasting
mod Beginning
