-- Flat is to be held against include/gdp.h, Calls against demand 1. What stands in Working needs no belief.
pub mod Flat
pub mod Calls
pub mod Tables
pub mod Working
