-- The f64 root: that std's square root is `root_of`. Assumes nothing.
mod Whole
mod Sqrt
