mod Contexts
mod Forwards
mod Handling
mod Places
mod Refused
