-- `WriteLaws` of writing into an output, `ReadBack` on reading what a writer left there.
pub mod WriteLaws
pub mod ReadBack
