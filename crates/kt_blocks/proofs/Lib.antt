mod EventLines
mod IdLemmas
mod LineLemmas
mod Midway
mod TextLemmas
