mod Outs
mod Homes
