mod Pieces
mod Entries
mod Adapters
mod Buffer
