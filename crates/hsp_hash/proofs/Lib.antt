mod Signed
mod Upper
