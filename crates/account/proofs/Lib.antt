pub mod Sofar
