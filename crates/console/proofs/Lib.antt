mod Texts
mod Unasked
