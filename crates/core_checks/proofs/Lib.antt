mod Judged
mod Limited
