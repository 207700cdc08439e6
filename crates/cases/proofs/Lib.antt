-- The table, proved.
pub mod CutsComputed
pub mod Computed
