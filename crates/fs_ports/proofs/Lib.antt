pub mod Sides
mod Firsts
mod Fronts
mod Tapes
mod Readings
mod Turns
