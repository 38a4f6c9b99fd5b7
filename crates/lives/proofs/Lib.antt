mod Loops
mod Folded
mod Steps
