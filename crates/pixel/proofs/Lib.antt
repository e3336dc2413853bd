pub mod OrderedHold
