mod Law
mod Nodes
