pub mod Plotted
pub mod PlottedLaws
