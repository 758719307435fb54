mod MailKeeps
