pub mod Printed
pub mod Figures
