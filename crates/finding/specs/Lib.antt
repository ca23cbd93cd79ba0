-- What is read in a sheet: by number pair and by place. Assumes nothing.
pub mod Read
pub mod Find
