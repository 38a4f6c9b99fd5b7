mod OneCycle
mod Driven
