pub mod Predicates
