mod Finding
mod OneByOne
mod Ending
mod StreamCopies
mod Copying
