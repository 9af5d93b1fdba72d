mod Puts
mod Adding
mod Rising
mod Filled
mod Preserving
mod Routed
mod Clock
mod Present
