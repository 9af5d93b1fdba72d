mod Carrying
mod Counting
mod Ranging
