mod Choosing
mod Images
mod Inside
mod Leaves
mod Writes
