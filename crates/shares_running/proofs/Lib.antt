mod Ends
mod Lists
mod Judged
mod Free
