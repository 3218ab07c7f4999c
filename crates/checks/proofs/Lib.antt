mod Bytes
mod Linear
mod Table
mod Words
