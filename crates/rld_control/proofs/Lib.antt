mod Ends
mod Holding
mod ReadBack
mod SignatureLaws
