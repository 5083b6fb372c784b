mod Exchanged
mod TwoFactors
