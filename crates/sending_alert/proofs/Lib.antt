pub mod Alerts
