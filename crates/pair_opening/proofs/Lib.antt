-- The laws of opening for two: a half (Bared), a product of two (Products), a wire by its gate (Arms), what the checks give (Prepared), one turn (Opens), the pass
-- (Reached, Sweep) and the code's locals in it (Loop).
pub mod Bared
pub mod Products
pub mod Arms
pub mod Opens
pub mod Reached
pub mod Prepared
pub mod Sweep
pub mod Loop
