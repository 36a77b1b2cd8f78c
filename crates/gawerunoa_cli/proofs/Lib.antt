mod Parts
mod Reading
