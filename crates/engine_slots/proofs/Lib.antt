mod Questions
mod Taking
