-- The words of the command line, the commands that they ask for, and where words that ask for none are wrong.
pub mod Fronts
pub mod Words
