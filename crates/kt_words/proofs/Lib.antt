mod Taking
mod Fitting
mod FileNaming
mod ChainWords
mod GenWords
