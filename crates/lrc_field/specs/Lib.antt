pub mod Field
pub mod Polynomials
pub mod Stripes
pub mod Recipes
pub mod Weights
