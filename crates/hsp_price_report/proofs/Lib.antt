mod Lines
mod Exact
mod Totals
