mod Drawing
mod Labelled
