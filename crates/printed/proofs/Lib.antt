pub mod PlotPrinted
