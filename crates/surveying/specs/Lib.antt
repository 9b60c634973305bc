pub mod States
pub mod Drawing
pub mod Strokes
pub mod Laws
pub mod PieceLaws
pub mod StrokeLaws
