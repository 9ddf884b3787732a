pub mod Csv
pub mod CsvWriter
pub mod Written
