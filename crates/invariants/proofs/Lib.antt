mod Judging
mod Pending
mod Seeing
