mod Issued
mod Landings
mod Lists
